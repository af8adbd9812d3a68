pub mod Prefixes
pub mod Behinds
pub mod Counted
pub mod Extents
