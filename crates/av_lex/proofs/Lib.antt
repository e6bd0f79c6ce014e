pub mod Ascii
pub mod Longest
pub mod Readings
pub mod Tables
