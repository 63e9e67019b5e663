pub mod Rest
pub mod Stages
pub mod Accepted
pub mod Exactly
pub mod Few
mod Fitted
pub mod Before
mod Cases
pub mod Unique
