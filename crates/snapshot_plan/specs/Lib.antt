pub mod Pieces
pub mod Noted
pub mod Laws
pub mod Listing
pub mod Plans
pub mod inner
