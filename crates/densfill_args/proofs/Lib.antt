mod Parts
mod Saying
