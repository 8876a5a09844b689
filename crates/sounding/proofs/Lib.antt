-- What holds of studio keys. Tests, Depths, Readings and Packing are what the proofs of the two functions rest on; Directions,
-- Order, Determined and Samples are the theorems for others to cite.
pub mod Tests
pub mod Depths
pub mod Readings
pub mod Packing
pub mod Directions
pub mod Order
pub mod Determined
pub mod Samples
