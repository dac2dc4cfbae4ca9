pub mod Caching
pub mod Meeting
pub mod Sharing
