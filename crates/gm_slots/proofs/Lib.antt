pub mod ById
pub mod Finding
pub mod Goods
pub mod Judging
pub mod Keeping
pub mod Meeting
pub mod Orders
