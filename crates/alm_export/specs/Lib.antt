pub mod Tree
pub mod Exported
pub mod Showing
