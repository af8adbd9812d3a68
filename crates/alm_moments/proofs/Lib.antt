pub mod Courses
pub mod Prefixes
