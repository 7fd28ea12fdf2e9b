-- Definitions that only private clauses cite.
pub mod Chunks
pub mod Lends
pub mod Queued
pub mod Sound
pub mod Edits
pub mod Pages
pub mod Chains
pub mod Touched
