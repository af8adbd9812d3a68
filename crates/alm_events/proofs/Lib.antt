pub mod Turns
pub mod Recalling
