pub mod Lists
mod Alike
mod LeavesApart
pub mod Quiet
pub mod Spanning
pub mod Moves
pub mod Serving
pub mod Filling
pub mod Pending
