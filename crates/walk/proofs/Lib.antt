pub mod Elements
pub mod Grown
pub mod Paths
pub mod Readings
pub mod Siftings
pub mod Walks
