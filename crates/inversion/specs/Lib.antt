pub mod Inverting
pub mod InvertRules
pub mod Inversions
