pub mod Cases
pub mod Parting
