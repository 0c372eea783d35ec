pub mod Axes
pub mod Parts
pub mod Grid
pub mod Sharing
pub mod Density
pub mod steps
