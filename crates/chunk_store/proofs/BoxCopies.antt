pub mod MoveLemmas
pub mod BoxLemmas
