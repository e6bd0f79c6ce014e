pub mod Refusals
pub mod Steps
pub mod Checked
pub mod Scheduled
pub mod Mapped
pub mod Headline
pub mod Planned
pub mod inner
