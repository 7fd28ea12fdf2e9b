pub mod Taken
pub mod Working
