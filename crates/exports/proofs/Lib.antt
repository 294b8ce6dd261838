-- Laws on which the proofs of the exported functions stand.
pub mod Turns
