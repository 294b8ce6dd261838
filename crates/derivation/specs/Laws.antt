-- Laws for whoever calls the functions of this crate: the items of a step.
pub mod ItemsOf
