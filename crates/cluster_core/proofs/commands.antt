pub mod Dump
pub mod Cut
pub mod Seal
pub mod Abort
pub mod Jobs
pub mod Puts
pub mod Open
pub mod Pause
