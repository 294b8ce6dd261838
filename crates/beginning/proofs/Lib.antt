pub mod Asks
pub mod Blank
pub mod Posing
pub mod Opens
pub mod Turns
