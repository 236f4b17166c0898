pub mod Bearer
pub use Rattle.containers.specs.TextMaps.Keyed
pub use Rattle.access_lists.specs.InForce
