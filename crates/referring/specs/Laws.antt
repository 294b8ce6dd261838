-- Laws for whoever calls the functions of this crate: what stays readable, question 39, free variables, growing stores, scratch.
pub mod Behind
pub mod Fronts
pub mod Refers
pub mod ScopeFacts
pub mod ScopeFree
pub mod Scoped
pub mod Sounds
pub mod Substitutes
pub mod Tests
