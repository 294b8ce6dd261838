pub mod Stores
pub mod Cells
pub mod Named
pub mod Placed
