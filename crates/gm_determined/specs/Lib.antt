pub mod Determined
pub mod Exactly
