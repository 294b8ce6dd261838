pub mod Allow
pub mod Clear
pub mod Finding
pub mod Premises
pub mod Reading
pub mod Taken
pub mod Tree
pub mod Under
