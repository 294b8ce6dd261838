-- Laws for whoever calls the functions of this crate: the tie of all tables to the state behind each form.
pub mod Assumed
pub mod Declared
pub mod Goals
pub mod Leaving
pub mod Making
pub mod Nexts
pub mod Results
