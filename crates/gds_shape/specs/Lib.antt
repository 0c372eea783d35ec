pub mod Winding
pub mod Moves
pub mod Boxes
pub mod Paths
pub mod Corners
pub mod Extents
pub mod steps
