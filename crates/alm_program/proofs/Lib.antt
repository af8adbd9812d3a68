mod Ending
mod Found
mod Parsed
pub mod Judging
