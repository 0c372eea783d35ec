pub mod Distance
pub mod Growth
pub mod Ranges
