pub mod Counted
pub mod Sum
