pub mod Begun
pub mod Calls
pub mod Ending
pub mod Going
pub mod Lends
pub mod Outcomes
pub mod Parts
