pub mod Calls
pub mod Cells
pub mod Device
pub mod Failures
pub mod Memory
pub mod Served
pub mod Settled
