-- What a run of the program leaves behind.
pub mod Outcomes
