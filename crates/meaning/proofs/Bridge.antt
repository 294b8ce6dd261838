-- From the definition to the lemmas: what each form takes is what its lemma assumes, and every state reached is good.
pub mod Refs
pub mod Step
pub mod Apply
pub mod Induct
pub mod Invert
pub mod Took
pub mod Proof
pub mod Take
pub mod Run
pub mod Goals
pub mod Check
