pub mod TableFile
pub mod Faults
