pub mod EntryLaws
pub mod Limits
pub mod Members
pub mod Unions
pub mod OfTokens
