pub mod Keys
pub mod Promise
pub mod Private
