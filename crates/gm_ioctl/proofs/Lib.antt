pub mod Refusals
pub mod Ranges
