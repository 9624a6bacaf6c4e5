pub mod Calls
pub mod Sourced
pub mod Collections
pub mod CollectionLaws
pub mod Seen
pub mod SeenLaws
pub mod OwnLaws
