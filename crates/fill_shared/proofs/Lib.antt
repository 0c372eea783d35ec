pub mod Points
pub mod Turning
pub mod Sums
pub mod Rounds
pub mod Edited
