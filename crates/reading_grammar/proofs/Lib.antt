pub mod Choice
pub mod Cases
pub mod Sound
pub mod Complete
pub mod Steps
pub mod Size
pub mod Spelled
