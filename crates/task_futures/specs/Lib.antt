pub mod Futures
pub mod Laws
pub mod inner
