pub mod Exports
pub mod Fresh
pub mod Right
pub mod Demands
pub mod Again
pub mod Unique
pub mod Indexed
pub mod Why
