pub mod Ranges
pub mod Growing
pub mod Overlaps
pub mod Marking
