pub mod Detection
pub mod Outcome
pub mod Rows
pub mod Showing
pub mod Suits
pub mod Table
