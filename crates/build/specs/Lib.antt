pub mod Building
pub mod Counting
pub mod Hints
pub mod Releasing
pub mod Room
pub mod Runs
pub mod Sizes
pub mod Undoing
