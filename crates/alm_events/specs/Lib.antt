pub mod Events
pub mod Turning
