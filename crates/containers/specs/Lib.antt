pub mod ShortLists
pub mod TextMaps
pub mod Options
