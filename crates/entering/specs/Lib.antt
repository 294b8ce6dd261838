pub mod Entered
pub mod Inverted
pub mod Laws
