pub mod Order
pub mod Options
pub mod Results
pub mod Mapped
mod Letters
mod Printing
mod Places
mod Unions
mod Separate
mod Joined
pub mod Halving
