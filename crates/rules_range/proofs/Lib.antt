mod Ranges
pub mod Unique
pub mod Cases
