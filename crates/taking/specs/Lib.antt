pub mod Tagged
pub mod Taking
pub mod Tried
