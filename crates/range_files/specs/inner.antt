-- Definitions that only private clauses cite.
pub mod Front
pub mod Seen
