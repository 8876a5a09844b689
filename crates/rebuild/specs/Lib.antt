pub mod Judging
pub mod Pairs
pub mod Rebuilding
pub mod Zeroing
