pub mod CollectionLemmas
pub mod ParseLemmas
pub mod ObjectLemmas
pub mod DocumentLemmas
pub mod WalkLemmas
pub mod BareLemmas
pub mod KeptLemmas
