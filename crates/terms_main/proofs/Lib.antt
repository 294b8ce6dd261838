-- Laws on which the proofs of the program stand.
pub mod Kept
pub mod Nodes
pub mod Tables
pub mod Unifies
