pub mod Widths
pub mod Places
pub mod Performing
pub mod Arranged
pub mod Problems
