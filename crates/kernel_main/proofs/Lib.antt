-- Laws on which the proofs of the program stand.
pub mod Words
