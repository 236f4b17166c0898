pub mod GrammarLemmas
pub mod ReadLemmas
pub mod CopyLemmas
pub mod KeptLemmas
pub mod NumberLemmas
pub mod PassLemmas
pub mod KeyLemmas
pub mod StreamLemmas
