pub mod Adding
pub mod Generating
pub mod Reaching
pub mod Listing
