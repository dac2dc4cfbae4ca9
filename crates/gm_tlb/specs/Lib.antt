pub mod Fills
pub mod Requests
