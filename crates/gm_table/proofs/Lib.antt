pub mod Members
pub mod Installs
pub mod Points
