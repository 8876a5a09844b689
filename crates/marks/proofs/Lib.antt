-- What the proofs of this crate rest on: the bits of a word (Words), one place (Marks), a run of places (Runs), what the two
-- searches find (Lowest), and a turn of each loop (Turns). Other crates cite Marks, Runs and Lowest.
pub mod Lowest
pub mod Marks
pub mod Runs
pub mod Turns
pub mod Words
