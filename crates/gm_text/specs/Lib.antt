pub mod InTypes
pub mod Pieces
pub mod Text
