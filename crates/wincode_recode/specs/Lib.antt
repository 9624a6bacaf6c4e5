pub mod Shapes
pub mod Recoding
pub mod Passing
pub mod Streaming
