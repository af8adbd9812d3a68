pub mod Counts
pub mod Images
pub mod Places
