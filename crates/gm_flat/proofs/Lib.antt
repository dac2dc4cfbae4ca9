pub mod Cuts
pub mod Fitting
pub mod OfPages
pub mod Replays
pub mod Typed
pub mod Walks
