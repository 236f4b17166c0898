mod LastLemmas
mod PassLemmas
mod CallerLists
mod OfClerks
pub mod OfExamples
