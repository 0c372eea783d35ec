pub mod Taken
pub mod Beside
pub mod Empty
pub mod Words
pub mod Halves
pub mod LowBefore
