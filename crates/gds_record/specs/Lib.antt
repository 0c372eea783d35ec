pub mod Records
pub mod Reading
pub mod Numbers
pub mod Reals
pub mod Table
