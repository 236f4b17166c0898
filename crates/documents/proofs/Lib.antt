pub mod OfDomains
pub mod OfParts
pub mod OfReader
