pub mod Gets
pub mod Shows
pub mod ByteArrays
pub mod Spanned
pub mod Left
mod Fronts
mod ReadSteps
mod ReadsBack
mod WrittenSplits
mod LineParts
mod Placed
mod Sourced
mod Likes
mod Witnesses
mod Rows
mod Heads
