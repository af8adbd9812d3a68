mod Cut
pub mod Attended
pub mod Beginnings
pub mod Begun
pub mod Runs
pub mod Stepped
pub mod Stores
pub mod Talks
pub mod Taken
pub mod Turned
pub mod Unasked
