pub mod Reasons
pub mod Said
pub mod Found
pub mod Rated
pub mod Indexed
pub mod Unique
