pub mod Operators
pub mod Trees
pub mod InRange
pub mod Answers
pub mod Packs
pub mod Stored
pub mod StoredTree
pub mod Unfolded
pub mod Forms
pub mod Fits
pub mod ReadOnce
pub mod Unique
mod Cases
