-- Definitions that only private clauses cite.
pub mod Changes
pub mod Futures
