pub mod Loaded
pub mod Overlaps
pub mod Laws
pub mod inner
