pub mod Frames
pub mod Strings
pub mod Padding
pub mod Pieces
