mod Exits
mod Pending
mod Walked
pub mod Fronts
pub mod Parts
