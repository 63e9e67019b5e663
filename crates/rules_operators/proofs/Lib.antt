pub mod Operators
pub mod Given
pub mod Unique
pub mod Halves
