-- Definitions that only private clauses cite.
pub mod Kept
pub mod Logs
pub mod Conflicts
