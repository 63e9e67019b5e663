pub mod Plurals
