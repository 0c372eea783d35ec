pub mod Spellings
pub mod Trimming
pub mod Magnitudes
