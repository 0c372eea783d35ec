-- What the contracts of private functions say: one step of the reader after the other.
pub mod Reading
pub mod Keeping
