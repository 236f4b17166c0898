pub mod Requests
pub mod Trees
pub mod Sums
pub mod Worlds
pub mod Values
