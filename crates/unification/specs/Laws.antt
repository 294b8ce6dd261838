-- Laws for whoever calls `unify`: its answers, and what they say of the two terms.
pub mod Unify
pub mod Answers
