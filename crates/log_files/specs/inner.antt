-- Definitions that only private clauses cite.
pub mod Seen
pub mod Joined
