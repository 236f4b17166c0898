pub mod Backing
pub mod Building
