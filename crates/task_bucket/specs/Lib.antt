pub mod Lists
pub mod Claims
pub mod Leases
pub mod Sums
pub mod Laws
pub mod Holders
pub mod HoldersLaws
pub mod inner
