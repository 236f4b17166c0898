pub mod Strides
pub use Rattle.hdf_values.specs.Nested
