pub mod Answers
pub mod Explains
pub mod Unique
