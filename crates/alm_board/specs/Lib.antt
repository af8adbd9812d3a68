pub mod Boards
pub mod PrefixesOf
pub mod Logs
pub mod Looks
pub mod Recalls
