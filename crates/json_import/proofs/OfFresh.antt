pub mod FreshLemmas
pub mod LawLemmas
pub mod LoadedLemmas
pub mod NameLemmas
pub mod ObjectLemmas
pub mod PutLemmas
pub mod StandingLemmas
pub mod TakingLemmas
