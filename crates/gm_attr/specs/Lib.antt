pub mod Flags
pub mod Kinds
