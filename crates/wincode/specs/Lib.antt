pub mod OneText
pub mod OneTextLaws
pub mod Messages
pub mod Rewriting
pub mod Logs
pub mod Limits
pub mod Appends
