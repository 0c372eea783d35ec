pub mod Writing
pub mod Columns
pub mod Ranges
pub mod Rows
