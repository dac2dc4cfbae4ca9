pub mod Adding
pub mod Held
