pub mod Memory
pub mod Pools
pub mod Reading
pub mod Writing
