pub mod Reading
pub mod Meanings
