pub mod Each
pub mod Places
pub mod Times
pub mod Sorted
