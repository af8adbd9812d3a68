pub mod Bytes
pub mod Changes
pub mod Eights
pub mod Packed
pub mod Shifts
