pub mod Named
pub mod World
pub mod Pace
pub mod Matches
pub mod Headline
