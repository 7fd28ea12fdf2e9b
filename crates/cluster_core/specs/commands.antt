pub mod Shared
pub mod Open
pub mod Dump
pub mod Cut
pub mod Seal
pub mod Abort
pub mod Status
pub mod Pause
