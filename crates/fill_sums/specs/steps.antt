-- What serves the functions of the crate alone.
pub mod Bounds
pub mod Moving
pub mod Shapes
