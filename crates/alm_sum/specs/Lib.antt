pub mod Crc
pub mod Known
