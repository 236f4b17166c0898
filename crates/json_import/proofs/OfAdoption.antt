pub mod DocumentLemmas
pub mod DomainLemmas
pub mod PlacingLemmas
pub mod LineLemmas
pub mod TextLemmas
pub mod RecordLemmas
pub mod LawLemmas
