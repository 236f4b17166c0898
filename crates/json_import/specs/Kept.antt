pub mod Documents
pub mod Imports
pub mod Parts
