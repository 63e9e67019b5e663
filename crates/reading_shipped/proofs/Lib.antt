pub mod Cases
mod Levels
mod Written
mod Fuel
mod Steps
mod Filled
pub mod Unique
pub mod Size
