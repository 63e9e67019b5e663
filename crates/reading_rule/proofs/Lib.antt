mod Steps
pub mod Nodes
pub mod Joined
pub mod Cases
mod Arithmetic
pub mod Unique
pub mod Meaning
