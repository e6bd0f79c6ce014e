pub mod Least
pub mod Coverage
pub mod Reachable
pub mod Verdicts
pub mod Premises
