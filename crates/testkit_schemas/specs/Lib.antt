pub mod Block
pub mod Refusing
pub mod ByteLengths
