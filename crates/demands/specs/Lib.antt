pub mod Demands
pub mod Reader
pub mod ReaderLaws
