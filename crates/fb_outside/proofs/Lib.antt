pub mod Counts
pub mod Fronts
pub mod Filing
mod Folders
mod Telling
