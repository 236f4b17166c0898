mod BodyLemmas
mod LinkLemmas
mod MakeLemmas
pub mod OrderLemmas
mod ValueBodyLemmas
