-- The tie of all tables to the state behind a form of a derived fact.
pub mod Deriving
pub mod Inverting
