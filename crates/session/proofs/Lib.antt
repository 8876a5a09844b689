pub mod Carrying
pub mod Moves
pub mod Turning
