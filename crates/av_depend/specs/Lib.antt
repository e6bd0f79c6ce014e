pub mod Sites
pub mod Edges
pub mod Components
pub mod AllPoints
pub mod SetPoints
pub mod ComputedPlaces
pub mod inner
