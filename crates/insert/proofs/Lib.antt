pub mod Endings
pub mod Leaves
pub mod Samples
pub mod Standings
pub mod Tidies
