pub mod Numbers
pub mod Forms
pub mod Maps
pub mod Squares
pub mod Completion
pub mod Cells
