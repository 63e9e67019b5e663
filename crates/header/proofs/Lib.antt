pub mod Labels
pub mod Parts
pub mod Ends
pub mod Depends
pub mod Unique
pub mod Cases
