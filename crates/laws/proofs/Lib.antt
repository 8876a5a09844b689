pub mod Answers
pub mod Bytes
pub mod Parts
pub mod Quotients
pub mod Refusals
pub mod Risings
pub mod Sets
pub mod Tests
