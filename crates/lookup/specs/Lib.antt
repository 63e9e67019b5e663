pub mod Lookup
pub mod Text
