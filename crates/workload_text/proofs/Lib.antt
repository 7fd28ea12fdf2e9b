pub mod Copying
pub mod Cutting
pub mod Decimals
pub mod Pairs
mod Places
pub mod Jobs
pub mod Allowing
pub mod Fitting
pub mod Keeping
pub mod Running
pub mod Soundness
pub mod Ready
pub mod Again
pub mod Taking
pub mod Only
