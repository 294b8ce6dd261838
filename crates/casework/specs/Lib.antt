pub mod Cases
pub mod Context
pub mod Distinct
pub mod Laws
