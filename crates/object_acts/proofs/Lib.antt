pub mod LawLemmas
pub mod OfArrays
pub mod OfDepths
pub mod OfExact
