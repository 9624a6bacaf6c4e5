pub mod Shapes
pub mod PassedOn
