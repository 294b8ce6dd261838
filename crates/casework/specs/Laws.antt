-- Laws of cases and contexts that `inversion` cites too.
pub mod CaseItems
pub mod Facts
pub mod Loops
pub mod Rows
