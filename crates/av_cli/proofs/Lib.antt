mod OptionWords
pub mod GivenSizes
pub mod Answered
mod DemoPlaces
pub mod AskedAnswers
