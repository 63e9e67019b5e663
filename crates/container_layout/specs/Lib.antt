pub mod Mo
pub mod Promise
pub mod Private
