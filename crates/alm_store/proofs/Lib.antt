pub mod Pace
pub mod Recovery
