pub mod NodeKeys
pub mod NodeWalks
pub mod RegisterFaults
pub mod RegisterWalks
pub mod PastNodes
