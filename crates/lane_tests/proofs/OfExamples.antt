pub mod CutRuns
pub mod TearRuns
pub mod FreshLemmas
pub mod MadeLemmas
pub mod RefutedLemmas
pub mod WaitLemmas
pub mod WholeLemmas
