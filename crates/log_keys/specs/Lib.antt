pub mod Keys
pub mod Laws
pub mod Logs
pub mod inner
