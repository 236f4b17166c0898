pub mod Adopted
pub mod Faults
pub mod Placing
pub mod Laws
