pub mod Fibres
pub mod Words
pub mod SameParts
mod Shorthand
mod Examples
mod RowExamples
