pub mod Adapted
pub mod Adds
pub mod Causes
pub mod Ends
pub mod Held
