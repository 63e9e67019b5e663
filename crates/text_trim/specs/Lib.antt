pub mod Trim
pub mod Private
