pub mod Decimal
pub mod Laid
pub mod Nodes
pub mod Texts
mod Heads
pub mod Writings
pub mod Unique
pub mod Cases
