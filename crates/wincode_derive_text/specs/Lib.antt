pub mod Notes
pub mod Splits
