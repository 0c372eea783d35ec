pub mod Axes
pub mod Level
pub mod Lattice
pub mod Bits
pub mod Marks
pub mod Laws
