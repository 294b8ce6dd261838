pub mod Entering
pub mod Inverting
