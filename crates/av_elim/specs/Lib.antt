pub mod Faults
pub mod Extents
pub mod inner
