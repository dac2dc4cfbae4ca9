pub mod Blockers
pub mod Deposits
pub mod Flags
pub mod Played
pub mod Room
pub mod Steps
