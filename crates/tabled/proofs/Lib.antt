pub mod Answering
pub mod Rowing
pub mod Storing
pub mod Declaring
