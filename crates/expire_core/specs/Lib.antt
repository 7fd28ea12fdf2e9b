pub mod Doomed
pub mod Plan
pub mod Changes
pub mod Expiry
pub mod Laws
