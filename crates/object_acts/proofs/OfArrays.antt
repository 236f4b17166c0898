pub mod LawLemmas
pub mod SlabLemmas
pub mod WriteLemmas
