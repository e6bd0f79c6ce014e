pub mod Scoped
pub mod Seen
