pub mod Ends
pub mod Keys
pub mod Entries
pub mod Last
pub mod Scan
pub mod Found
pub mod Unique
