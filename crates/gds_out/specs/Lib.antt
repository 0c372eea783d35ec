pub mod Places
pub mod Strips
pub mod FillText
pub mod FillContents
pub mod Laws
pub mod steps
