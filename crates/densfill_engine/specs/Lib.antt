-- The table of faults, the line that tells of one, and what the program answers to its inputs.
pub mod Faults
pub mod Scopes
pub mod Inputs
pub mod Metal
pub mod Laws
pub mod Rects
pub mod Designs
pub mod Views
pub mod Checks
pub mod Refusals
pub mod Runs
pub mod Fills
pub mod Joining
pub mod Joiners
pub mod OneRun
