pub mod RootLemmas
pub mod GroupLemmas
pub mod RecordLemmas
pub mod OpeningLemmas
pub mod MakingLemmas
pub mod Beginning
