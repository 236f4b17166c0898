pub mod TreeLemmas
pub mod FaultLemmas
pub mod TableLemmas
pub mod ListLemmas
pub mod OfKept
