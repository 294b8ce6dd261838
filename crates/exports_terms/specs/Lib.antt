pub mod Keeps
pub mod Unifies
