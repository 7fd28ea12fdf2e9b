-- Definitions that only private clauses cite.
pub mod Walks
pub mod Splits
