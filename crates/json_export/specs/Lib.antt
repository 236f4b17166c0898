pub mod Faults
pub mod Documents
