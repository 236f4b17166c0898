pub mod Examples
pub mod Crowds
