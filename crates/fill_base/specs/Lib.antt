pub mod Counts
pub mod Coordinates
pub mod Limits
pub mod Sides
pub mod Squares
pub mod Sequence
pub mod Edges
