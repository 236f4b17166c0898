pub mod Domains
pub mod Forms
pub mod Parameters
pub mod Operations
pub mod Requests
pub mod Order
pub mod Queries
pub mod Routes
