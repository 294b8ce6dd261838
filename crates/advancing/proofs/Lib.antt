pub mod Counting
pub mod Courses
pub mod Growing
pub mod Steps
