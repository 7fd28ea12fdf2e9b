pub mod Appends
mod Clients
mod Nothing
mod Plain
mod Tails
