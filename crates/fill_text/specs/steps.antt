-- What the private functions do, step by step.
pub mod Changes
pub mod Rows
pub mod Entries
