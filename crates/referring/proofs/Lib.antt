pub mod Joins
pub mod Parts
pub mod Referring
pub mod Replacing
pub mod ScopeCells
pub mod ScopeHyps
pub mod ScopeOutside
pub mod ScopeVisits
