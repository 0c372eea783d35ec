-- What serves the functions of the crate alone.
pub mod FirstAbove
pub mod Lines
pub mod Merging
pub mod Rows
