pub mod Placing
pub mod Parts
pub mod Search
pub mod Trivial
