pub mod Sums
pub mod steps
