pub mod Passes
pub mod Sharing
pub mod Working
pub mod Rounds
pub mod Runs
pub mod steps
