pub mod Applying
pub mod ItemsOf
pub mod Laws
pub mod Stepping
