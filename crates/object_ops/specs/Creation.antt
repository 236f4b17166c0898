pub mod Creations
pub mod Spelled
