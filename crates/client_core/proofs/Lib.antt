pub mod Lists
pub mod Entries
mod Following
mod Grounds
pub mod Known
mod Trying
pub mod Soundness
pub mod Relied
