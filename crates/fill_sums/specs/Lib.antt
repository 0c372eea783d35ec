pub mod Numbers
pub mod Laws
pub mod steps
