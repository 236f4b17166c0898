pub mod Faultless
pub mod Told
