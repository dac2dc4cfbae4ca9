pub mod Summary
pub mod Totals
