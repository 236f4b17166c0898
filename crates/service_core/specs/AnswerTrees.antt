pub mod Bodies
pub mod Exact
pub mod Readable
pub mod Statuses
