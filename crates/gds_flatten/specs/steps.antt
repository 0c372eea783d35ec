-- What the contracts of private functions say.
pub mod Chains
pub mod Finding
pub mod Framing
pub mod Idle
pub mod Reached
pub mod Roots
