pub mod Profiles
pub mod Text
pub mod Frames
pub mod Rows
