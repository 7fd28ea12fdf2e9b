pub mod Calls
pub mod Contents
pub mod Faults
pub mod Files
pub mod Memory
pub mod Told
pub mod inner
