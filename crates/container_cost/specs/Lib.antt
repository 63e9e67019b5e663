pub mod Cost
pub mod Private
