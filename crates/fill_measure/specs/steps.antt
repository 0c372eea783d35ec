-- What serves the functions of the crate alone.
pub mod PrefixSums
pub mod Ends
pub mod Bands
pub mod Meshes
pub mod Chunks
pub mod Edges
pub mod Uniform
pub mod Sides
