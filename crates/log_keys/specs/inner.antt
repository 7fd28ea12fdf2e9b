-- Definitions that only private clauses cite.
pub mod Parts
pub mod Table
pub mod Keys
