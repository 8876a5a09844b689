pub mod Conflicts
pub mod Dropping
pub mod Gathering
pub mod Grown
pub mod Judging
pub mod Rebuilds
pub mod Releases
mod Samples
pub mod Soundness
pub mod Zeroing
