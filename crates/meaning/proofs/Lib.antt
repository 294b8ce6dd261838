pub mod Bridge
pub mod Premise
pub mod Writing
pub mod Theorems
pub mod TheoremsHold
