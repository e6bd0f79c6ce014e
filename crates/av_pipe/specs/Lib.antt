pub mod Pipelines
pub mod Piped
pub mod Ranks
pub mod inner
