pub mod Residues
pub mod Resized
pub mod Words
pub mod Serves
pub mod Shown
pub mod Serving
pub mod Problems
