pub mod Choice
pub mod Groups
pub mod Height
pub mod Slots
