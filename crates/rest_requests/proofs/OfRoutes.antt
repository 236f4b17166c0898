pub mod Segments
pub mod Paths
pub mod PutLemmas
pub mod RouteParts
