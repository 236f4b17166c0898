pub mod BackLemmas
pub mod ExactLemmas
pub mod ReadLemmas
pub mod SameLemmas
pub mod TidyLemmas
pub mod TreeLemmas
