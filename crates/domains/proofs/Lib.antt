pub mod ChildWalks
pub mod Counts
pub mod FaultLemmas
pub mod Places
pub mod Puts
pub mod Removals
pub mod Roots
pub mod OfRecords
