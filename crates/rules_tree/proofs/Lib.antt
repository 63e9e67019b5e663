mod Marks
pub mod Runs
pub mod Unique
pub mod Cases
