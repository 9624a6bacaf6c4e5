pub mod ReaderUses
pub mod WriterUses
