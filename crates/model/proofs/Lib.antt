pub mod Answering
pub mod Counts
pub mod Groups
pub mod Heights
pub mod Least
pub mod Parting
pub mod Samples
pub mod Slots
