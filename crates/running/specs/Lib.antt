pub mod Between
pub mod Checking
pub mod Course
pub mod Finished
pub mod Lent
pub mod ReadBack
pub mod RecordLaws
pub mod Refusals
