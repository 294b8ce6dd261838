-- Written derivations are accepted exactly when they stay inside the limits; Accepted has the theorem.
pub mod Gather
pub mod Read
pub mod Terms
pub mod Node
pub mod Step
pub mod Forms
pub mod Run
pub mod Decimal
pub mod Tree
pub mod Spelling
pub mod Words
