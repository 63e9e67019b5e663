pub mod Encodings
pub mod Edges
pub mod Backs
pub mod Middle
pub mod Whites
pub mod Trimming
pub mod Unique
pub mod Cases
