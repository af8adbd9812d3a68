pub mod Metrics
pub mod Counted
pub mod Calls
pub mod Rings
pub mod Shown
