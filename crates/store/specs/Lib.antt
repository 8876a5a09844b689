pub mod Bands
pub mod Calls
pub mod Handles
pub mod Loading
