pub mod Searching
pub mod Accepted
pub mod ReadSets
pub mod Conflicts
pub mod Marking
pub mod LowWindows
pub mod TileReads
pub mod Reaching
