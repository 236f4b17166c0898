pub mod Targets
pub mod Pairs
