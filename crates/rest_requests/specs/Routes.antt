pub mod Table
pub mod Found
pub mod Parts
pub mod Rows
pub mod Methods
