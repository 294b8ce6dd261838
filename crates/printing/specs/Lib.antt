pub mod Written
pub mod Lines
pub mod Names
pub mod Loaded
