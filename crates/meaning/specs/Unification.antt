-- Unification fails only where no unifier exists, and finds a most general one; Right has the theorems.
pub mod Acts
pub mod List
pub mod Pairs
pub mod Peel
pub mod Solve
pub mod Room
pub mod Right
