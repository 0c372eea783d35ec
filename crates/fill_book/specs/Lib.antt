pub mod Keeping
pub mod Standing
pub mod steps
