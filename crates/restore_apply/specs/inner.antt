-- Definitions that only private clauses cite.
pub mod Pieces
pub mod Stored
pub mod Tables
pub mod Loaded
pub mod Overlaps
