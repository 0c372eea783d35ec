-- What serves the functions of the crate alone.
pub mod Far
pub mod Strips
