pub mod Boxes
pub mod Moves
pub use Rattle.hyperslab.specs.Runs
pub use Rattle.chunk_store.specs.StridedCopies.Strides
