pub mod Seeing
pub mod Actors
pub mod Flagging
pub mod GoingOn
pub mod Stepping
pub mod Told
pub mod Playing
