pub mod Lending
pub mod Tabled
