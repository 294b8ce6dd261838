pub mod Fronts
pub mod Answered
