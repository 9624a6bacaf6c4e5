pub mod CountLaws
pub mod Counts
pub mod Depths
pub mod Fronts
pub mod Messages
pub mod Pages
pub mod Refusals
pub mod Reports
