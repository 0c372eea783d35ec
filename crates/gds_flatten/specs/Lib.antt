pub mod Frames
pub mod Flattening
pub mod Layers
pub mod steps
