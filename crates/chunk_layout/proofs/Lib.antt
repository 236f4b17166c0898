pub mod SizeLemmas
pub mod CellLemmas
pub mod DefaultLemmas
pub mod LayoutLemmas
pub mod GridLemmas
pub mod DefaultChunks
