mod Sums
mod Cases
mod Unique
