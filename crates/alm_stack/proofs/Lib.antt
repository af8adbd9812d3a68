pub mod Verdicts
pub mod Kept
pub mod Worlds
pub mod Leading
pub mod Rests
pub mod Looking
pub mod Pace
