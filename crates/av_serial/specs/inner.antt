pub mod Lowered
pub mod Tries
pub mod Counted
pub mod Premises
pub mod Building
