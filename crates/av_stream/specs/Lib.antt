pub mod Periods
pub mod Streams
pub mod StreamPlans
pub mod StreamTexts
pub mod inner
