pub mod Renamed
pub mod Loaded
pub mod Laws
