mod Splitting
pub mod SplitLaws
