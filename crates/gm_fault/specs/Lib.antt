pub mod Levels
pub mod Routes
