pub mod AttributeLemmas
pub mod MapLemmas
