pub mod OfAdoption
pub mod OfFresh
pub mod OfKept
pub mod RoundTrips
