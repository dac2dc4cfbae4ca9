pub mod Lookups
pub mod Renewing
pub mod Telling
