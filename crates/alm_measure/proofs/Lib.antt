pub mod Areas
pub mod Passing
pub mod Plants
pub mod Runs
pub mod Sound
pub mod Turning
