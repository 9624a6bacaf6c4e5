mod Zeros
pub mod ByteLengths
