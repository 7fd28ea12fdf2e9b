pub mod Finding
pub mod Falling
pub mod Linking
pub mod Keeping
pub mod Joining
pub mod Nearing
