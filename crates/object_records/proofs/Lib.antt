pub mod ListLemmas
pub mod TreeLemmas
pub mod CreationLemmas
pub mod ReadLemmas
pub mod SameLemmas
pub mod BodyLemmas
pub mod OfKeys
