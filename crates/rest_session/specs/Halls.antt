pub mod Accounts
pub mod Asking
pub mod Acknowledged
pub mod Gates
pub mod Visits
pub mod Workers
pub mod Staff
pub mod Histories
