pub mod Derived
pub mod Ids
pub mod Laws
pub mod Recall
pub mod Referral
pub mod Sources
pub mod Substitutes
