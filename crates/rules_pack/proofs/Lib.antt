mod Laws
pub mod Unique
pub mod Cases
