pub mod Sets
pub mod Words
pub mod Views
pub mod Parts
pub mod PieceValues
pub mod Examples
mod WellFormedSystem
mod PieceExamples
pub mod Evaluated
pub mod Solving
pub mod Cycles
pub mod Chaining
pub mod Unhelped
pub mod Bounded
pub mod Falling
pub mod DeclaredPoints
pub mod SignVectors
pub mod NodeNumbers
pub mod Reading
