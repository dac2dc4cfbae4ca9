pub mod Changes
pub mod Good
pub mod Kept
pub mod Order
