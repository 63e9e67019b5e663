pub mod Catalog
pub mod Accepts
pub mod Before
pub mod Promise
pub mod Private
