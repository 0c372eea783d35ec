pub mod Searches
pub mod Plans
pub mod ReadSets
pub mod Laws
pub mod Basis
pub mod steps
