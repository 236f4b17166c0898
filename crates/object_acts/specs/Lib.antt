pub mod Objects
pub mod Trees
pub mod Acts
pub mod Marked
pub mod Arrays
pub mod Depths
