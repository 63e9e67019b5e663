pub mod Utf8
pub mod Scalar
pub mod Private
