pub mod Messages
pub mod Good
pub mod Before
