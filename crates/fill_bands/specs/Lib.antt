pub mod Bands
pub mod Squares
pub mod Lines
pub mod Rows
pub mod steps
