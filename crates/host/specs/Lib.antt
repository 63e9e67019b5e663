pub mod Host
pub mod Explained
