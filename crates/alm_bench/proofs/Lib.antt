pub mod Crashes
pub mod Reopened
pub mod Carried
pub mod Order
pub mod Told
pub mod Traces
pub mod Answering
