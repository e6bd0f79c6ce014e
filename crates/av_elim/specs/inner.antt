pub mod Rows
pub mod Step
pub mod Span
pub mod Clamped
