-- What serves the functions of the crate alone.
pub mod Reaches
pub mod Windows
pub mod Worked
