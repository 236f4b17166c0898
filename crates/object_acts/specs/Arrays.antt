pub mod Faults
pub mod Stops
pub mod Creation
pub mod Arrays
pub mod Writes
pub mod Marked
