pub mod Lexicon
pub mod Outside
pub mod Reading
pub mod Spelling
pub mod Streams
pub mod Tokens
pub mod Words
pub mod formers
