pub mod Following
pub mod Knowing
pub mod Named
pub mod Joined
