pub mod Advancing
pub mod Calls
pub mod Opening
pub mod Pace
pub mod Pacing
pub mod Recovery
pub mod State
