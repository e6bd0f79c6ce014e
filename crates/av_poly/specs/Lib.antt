pub mod Points
pub mod Preimages
pub mod Parts
pub mod Normal
pub mod Search
pub mod Rational
pub mod inner
