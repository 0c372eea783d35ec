pub mod Reading
pub mod Joins
pub mod Laws
pub mod steps
pub mod Fills
pub mod Joined
