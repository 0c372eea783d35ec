pub mod Runs
pub mod Places
pub mod Stacks
pub mod Counting
pub mod Laws
