pub mod Scan
pub mod Private
