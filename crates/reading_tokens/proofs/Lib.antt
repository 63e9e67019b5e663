mod Ranks
mod Lexed
pub mod Nexts
pub mod Unique
