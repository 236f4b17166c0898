pub mod LaneKeys
pub mod Taking
pub mod Walking
pub mod Telling
pub mod Standing
pub mod Records
