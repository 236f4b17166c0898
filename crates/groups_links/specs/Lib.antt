pub mod GroupLinks
pub mod IdTexts
pub mod Printed
pub mod Targets
pub mod Titles
