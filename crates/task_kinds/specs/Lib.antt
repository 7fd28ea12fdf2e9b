pub mod Kinds
pub mod Params
pub mod Tasks
pub mod Tuples
pub mod Works
pub mod Laws
pub mod States
