pub mod Coming
pub mod Complete
pub mod Exactly
pub mod Numbered
pub mod Upward
