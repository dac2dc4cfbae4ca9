pub mod Callers
pub mod Rooming
pub mod Holding
pub mod Stand
pub mod Waiting
pub mod Added
