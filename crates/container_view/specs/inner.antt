-- Definitions that only private clauses cite.
pub mod Listing
pub mod Parts
pub mod Listed
pub mod Names
