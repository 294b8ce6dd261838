-- Laws on which the proofs of the functions stand: of bytes and blocks of them, of cells, and of each loop as steps from state to state.
pub mod ByteLaws
pub mod Blocks
pub mod Skips
pub mod Comings
pub mod CellLaws
pub mod OpenLists
pub mod States
pub mod Tallies
pub mod Turns
pub mod IndexLaws
pub mod TagLaws
pub mod Firsts
pub mod Lists
pub mod Plain
