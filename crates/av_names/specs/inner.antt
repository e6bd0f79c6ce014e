pub mod Seen
pub mod Fitting
pub mod Sums
pub mod Building
pub mod ShortSums
pub mod AtOption
pub mod Repeating
pub mod FirstAgain
