pub mod Kinds
pub mod Lines
