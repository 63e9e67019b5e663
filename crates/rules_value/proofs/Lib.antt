mod Values
pub mod Unique
