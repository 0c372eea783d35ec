pub mod Filling
pub mod Low
pub mod Tiles
pub mod Layers
pub mod Pieces
pub mod steps
