pub mod Progress
pub mod StepLemmas
pub mod Readings
pub mod Views
pub mod Endings
