pub mod Adoption
pub mod Fresh
pub mod Kept
pub mod RoundTrips
