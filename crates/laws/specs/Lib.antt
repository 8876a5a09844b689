pub mod Answers
pub mod Bytes
pub mod Keys
pub mod Pick
pub mod Refusals
