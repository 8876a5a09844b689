pub mod Answering
pub mod Elements
pub mod Printings
pub mod Refusing
pub mod Runs
pub mod Samples
pub mod Sessions
pub mod Steps
