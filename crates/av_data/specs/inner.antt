pub mod Parts
pub mod Bindings
pub mod ReadData
pub mod Walks
pub mod Settings
pub mod Named
