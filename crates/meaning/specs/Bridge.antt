-- From the definition to the lemmas: what each form takes is what its lemma assumes, and every state reached is good.
pub mod Asked
pub mod Well
pub mod Read
pub mod Matching
pub mod Case
pub mod Names
pub mod Ends
pub mod Theory
pub mod Unified
