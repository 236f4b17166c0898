pub mod Domains
pub mod Parts
pub mod Reader
