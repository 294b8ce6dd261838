-- One lemma for each form on trees, generic in the set of rules, and the induction over a list of facts.
pub mod Sound
pub mod Steps
pub mod Applies
pub mod Inducts
pub mod Inverts
pub mod Forms
pub mod Run
