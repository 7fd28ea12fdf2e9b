mod Lists
mod Entries
mod Answered
mod All
mod Known
mod Named
mod Numbering
mod Grown
mod Puts
mod Waiting
mod Holding
mod Frames
mod Steps
pub mod Elsewhere
pub mod Draining
mod Openings
pub mod Slashes
mod Relied
mod Oldest
mod Worlds
mod Crewing
mod Paces
pub mod LeastKeys
mod Filings
pub mod Footprints
pub mod Started
mod Touching
mod plans
mod commands
mod events
