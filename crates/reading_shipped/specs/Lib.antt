pub mod Shipped
pub mod Private
