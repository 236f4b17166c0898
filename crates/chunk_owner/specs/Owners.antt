pub mod Joined
pub mod Records
pub mod Cutting
pub mod Walks
