mod Lists
pub mod Stays
pub mod Flights
pub mod Moves
pub mod Routing
pub mod Sighting
pub mod Allowed
pub mod Getting
pub mod Holders
pub mod Putting
