-- What the two texts say.
pub mod RectTests
pub mod Grids
pub mod Rasters
pub mod Keys
pub mod Chips
pub mod Limits
pub mod Laws
pub mod Numbers
pub mod Refusals
pub mod Rows
pub mod Rules
pub mod Script
pub mod ValuesOfRules
pub mod ValuesOfChips
pub mod steps
