pub mod Elements
pub mod Spelling
pub mod Reading
pub mod Order
pub mod inner
