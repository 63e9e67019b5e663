pub mod Record
pub mod Why
