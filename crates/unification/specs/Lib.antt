pub mod Pairs
pub mod Extend
pub mod Unify
pub mod Peel
pub mod Laws
