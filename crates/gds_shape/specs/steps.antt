-- What the contracts of private functions say.
pub mod Edges
pub mod Lines
pub mod Ranges
