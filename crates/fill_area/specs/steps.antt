-- What serves the functions of the crate alone.
pub mod Begun
pub mod Measured
