pub mod Lines
pub mod Reading
pub mod Numbers
pub mod Commands
pub mod Apps
pub mod Views
