pub mod Placed
pub mod Originals
pub mod Entries
pub mod Accepts
mod Unique
pub mod Before
