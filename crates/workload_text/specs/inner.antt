-- Definitions that only private clauses cite.
pub mod Ready
pub mod Seen
