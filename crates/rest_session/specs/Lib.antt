pub mod Responses
pub mod Sessions
pub mod Stood
pub mod Kept
pub mod Halls
pub mod Links
