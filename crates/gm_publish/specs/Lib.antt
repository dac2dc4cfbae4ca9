pub mod Counts
pub mod Kept
pub mod Lookups
pub mod Publisheds
pub mod Sightings
pub mod Views
