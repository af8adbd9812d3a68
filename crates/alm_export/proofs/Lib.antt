pub mod Reading
pub mod Members
pub mod Shown
