mod Taken
mod Levels
mod Prefixes
mod Whole
pub mod Unique
pub mod Derived
