pub mod AttributeTrees
pub mod AttributeMaps
pub use Rattle.hdf_values.specs.Attributes
pub use Rattle.object_ids.specs.Names
pub use Rattle.containers.specs.TextMaps.Keyed
pub use Rattle.containers.specs.TextMaps.Nexts
