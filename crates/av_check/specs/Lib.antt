pub mod Miscovered
pub mod Blame
pub mod CheckFaults
pub mod inner
