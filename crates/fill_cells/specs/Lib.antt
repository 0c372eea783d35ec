pub mod Mesh
pub mod steps
