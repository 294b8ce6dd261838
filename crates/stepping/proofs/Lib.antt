pub mod Ends
pub mod Fronts
pub mod Steps
