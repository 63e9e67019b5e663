pub mod Cells
pub mod Forms
pub mod Marks
pub mod Segments
pub mod Entries
pub mod Keys
pub mod Unique
