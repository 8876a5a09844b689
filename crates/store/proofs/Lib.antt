pub mod BandSamples
pub mod BandWays
pub mod Faults
pub mod Fitting
pub mod Loads
pub mod Searching
