pub mod Opening
pub mod Begun
pub mod Groups
pub mod FirstJournals
