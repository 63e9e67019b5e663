mod Heads
pub mod Words
mod Unique
