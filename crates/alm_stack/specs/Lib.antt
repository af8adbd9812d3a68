pub mod Exchanges
pub mod Stacks
