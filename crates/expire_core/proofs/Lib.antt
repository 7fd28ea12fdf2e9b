mod Making
mod Telling
mod Stays
mod Deleting
mod Refusals
mod Honesty
mod Orders
mod Elsewhere
