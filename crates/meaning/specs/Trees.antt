-- Trees: occurrence, sorts and replacement as types, their facts, and what the tests of the definition say of them.
pub mod Tree
pub mod Tests
pub mod Replace
