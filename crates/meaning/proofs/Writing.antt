-- Written derivations are accepted exactly when they stay inside the limits; Accepted has the theorem.
pub mod Texts
pub mod Accepted
pub mod AcceptedTree
pub mod Example
