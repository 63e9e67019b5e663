pub mod Scanned
pub mod Unique
