pub mod Passing
pub mod Plain
pub mod ShortLists
pub mod TextMaps
