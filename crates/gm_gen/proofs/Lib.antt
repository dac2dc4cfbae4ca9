pub mod Commands
pub mod LineReads
pub mod NumberReads
pub mod OrderReads
pub mod ScriptReads
pub mod Texts
