pub mod Keys
pub mod PartLaws
pub mod Sums
pub mod SumLaws
pub mod Splits
pub mod SplitLaws
