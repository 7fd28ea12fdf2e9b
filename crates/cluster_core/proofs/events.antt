pub mod Begin
pub mod Commit
pub mod Tick
pub mod Claim
pub mod Extend
pub mod Die
