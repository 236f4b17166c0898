pub mod KeptServices
pub mod Notes
pub mod Standing
pub mod Cuts
pub mod Owed
pub mod Desks
pub mod Keepings
pub mod Laws
