pub mod Blocks
pub mod Printing
pub mod Runs
pub mod Sessions
pub mod Stepping
