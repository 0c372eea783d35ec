pub mod Plain
pub mod Densities
pub mod Joining
pub mod Lines
pub mod BookMeasures
mod RowEnds
