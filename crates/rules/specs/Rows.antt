-- Rows beside Examples and Slips, each to be checked by hand; `tried` has edits of the definition that they alone refuse.
pub mod Row
pub mod References
pub mod Steps
pub mod Applications
pub mod Inductions
pub mod Inversions
pub mod Others
pub mod Unification
pub mod Kept
pub mod Full
