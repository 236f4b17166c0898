pub mod StrayLemmas
