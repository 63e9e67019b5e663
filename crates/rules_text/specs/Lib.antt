pub mod Bracketed
pub mod Bounded
pub mod Writing
pub mod Private
