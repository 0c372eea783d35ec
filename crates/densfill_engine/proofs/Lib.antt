mod FaultLines
mod Patches
mod Replayed
mod EditedLayers
mod Reasons
mod Drawing
pub mod Checking
mod TileTurns
mod Filling
mod Later
mod Parts
mod TileRows
mod Preparing
mod Joined
mod OneRun
