pub mod Slots
pub mod Cutting
pub mod Bodies
pub mod Settled
pub mod Changed
pub mod Marking
pub mod Forgetting
pub mod Listed
