-- Laws on which the proofs stand.
pub mod Arms
pub mod Ends
pub mod Heads
