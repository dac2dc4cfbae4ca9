pub mod Aim
pub mod Extent
pub mod Leaf
pub mod Scripts
pub mod Values
