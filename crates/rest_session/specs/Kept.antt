pub mod Sessions
pub mod Doors
