pub mod Events
pub mod Noted
pub mod Replay
