pub mod Numbered
pub mod Lines
pub mod Listings
pub mod Entries
pub mod Checked
