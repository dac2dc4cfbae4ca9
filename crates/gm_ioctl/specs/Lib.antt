pub mod Arguments
pub mod Remaining
pub mod InRange
