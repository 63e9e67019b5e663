pub mod Table
pub mod Rejected
