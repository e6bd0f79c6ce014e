pub mod Waves
pub mod Dumps
pub mod Fronts
pub mod Simulated
pub mod Recorded
pub mod Clocking
pub mod inner
