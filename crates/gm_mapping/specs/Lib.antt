pub mod Alike
pub mod Mapping
pub mod Opened
