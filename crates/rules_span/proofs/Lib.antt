pub mod Figures
mod Cases
pub mod Unique
