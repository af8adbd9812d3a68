pub mod Gatherings
pub mod Paces
pub mod Places
pub mod Wakings
