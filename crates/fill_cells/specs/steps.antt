-- What serves the functions of the crate alone.
pub mod Within
pub mod Parts
pub mod Halves
pub mod Skyline
