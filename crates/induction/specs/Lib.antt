pub mod Inducing
