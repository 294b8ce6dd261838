-- Laws for whoever calls the functions of this crate, and for their own proofs: what stays readable, and what a callee is given.
pub mod Reading
pub mod Bindings
pub mod Walks
pub mod Lists
pub mod Parts
