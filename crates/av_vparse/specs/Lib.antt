pub mod Digits
pub mod Fronts
pub mod Beginnings
pub mod Said
pub mod Parsing
pub mod inner
