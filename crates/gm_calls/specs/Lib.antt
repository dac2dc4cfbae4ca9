pub mod AtOnce
pub mod Lent
pub mod Judgements
pub mod LockSets
pub mod Rows
pub mod Steps
