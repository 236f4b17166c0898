pub mod Readings
pub mod Faults
pub mod Lists
pub mod Nodes
