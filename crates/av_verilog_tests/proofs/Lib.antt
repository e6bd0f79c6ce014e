mod Written
mod Sums
mod Unfed
