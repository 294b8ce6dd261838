pub mod Missing
pub mod Opened
pub mod Ends
pub mod Listing
