pub mod NamedLemmas
pub mod RegisterLemmas
pub mod WholeLemmas
pub mod WorldLemmas
