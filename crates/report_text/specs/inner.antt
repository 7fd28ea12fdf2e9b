-- Definitions that only private clauses cite.
pub mod Fields
pub mod Replies
