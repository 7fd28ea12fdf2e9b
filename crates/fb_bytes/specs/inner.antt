-- Definitions that only private clauses cite.
pub mod Held
pub mod Keys
