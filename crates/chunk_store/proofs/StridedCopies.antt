pub mod StrideLemmas
