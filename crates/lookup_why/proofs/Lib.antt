mod Counted
mod Reasons
pub mod True
pub mod Unique
mod Cases
