-- What the proofs of this crate rest on, and what callers cite: when a node is due and which of a path is (Dues), what raising
-- changes and what it leaves (Raises), and that a walk without damage leaves a path of the pool's records (Traces).
pub mod Dues
pub mod Raises
mod Samples
pub mod Traces
