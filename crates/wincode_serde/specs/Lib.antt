pub mod Edits
pub mod Serde
