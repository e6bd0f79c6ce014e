pub mod Bits
pub mod Scan
pub mod Lexing
pub mod Reading
pub mod Answers
