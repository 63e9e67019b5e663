pub mod Headers
pub mod Entry
pub mod Rules
mod Unique
