pub mod Counts
pub mod Elements
pub mod Halves
pub mod Keys
pub mod Landings
pub mod Listings
pub mod Places
pub mod Writes
