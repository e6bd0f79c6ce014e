pub mod Faults
pub mod SpelledParts
pub mod inner
