pub mod Entries
pub mod Inserting
pub mod Steps
