pub mod Following
pub mod Prefixes
pub mod Publishing
pub mod Rising
pub mod Spying
pub mod Standing
pub mod Views
