pub mod Asking
pub mod Given
pub mod Lengths
pub mod Opened
pub mod Posed
