pub mod Decimals
pub mod KindBytes
pub mod Samples
pub mod Writing
