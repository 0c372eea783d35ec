pub mod Signed
pub mod Counting
pub mod Between
pub mod Covering
pub mod Results
pub mod Areas
pub mod Distances
