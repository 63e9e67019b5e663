pub mod Fields
pub mod Promise
