pub mod Registers
pub mod Walks
