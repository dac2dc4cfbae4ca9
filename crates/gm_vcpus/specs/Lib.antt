pub mod Asks
pub mod Vcpus
pub mod Stages
pub mod Stand
pub mod Sights
pub mod Puts
pub mod Adds
pub mod Holds
