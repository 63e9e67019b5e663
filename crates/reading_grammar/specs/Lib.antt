pub mod Grammar
pub mod Tokens
pub mod Spells
pub mod Reading
