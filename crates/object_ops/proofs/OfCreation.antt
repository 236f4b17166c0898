pub mod CreationLemmas
pub mod SpelledLemmas
