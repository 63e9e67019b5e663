pub mod Steps
pub mod Exact
pub mod Unique
mod Cases
