pub mod Faults
pub mod Logs
pub mod Dumps
pub mod Reads
pub mod Commits
pub mod Laws
pub mod inner
