pub mod Digits
pub mod Finding
pub mod Keeping
pub mod LineCuts
pub mod Puts
pub mod Turns
pub mod WordCuts
