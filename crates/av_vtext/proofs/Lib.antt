pub mod Widths
pub mod Joined
pub mod Links
