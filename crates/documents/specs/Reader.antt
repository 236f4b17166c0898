pub mod Objects
pub mod Collections
pub mod Texts
pub mod Documents
pub mod Loads
pub mod Bare
pub mod Kept
