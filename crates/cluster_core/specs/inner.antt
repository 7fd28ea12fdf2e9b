-- Definitions that only private clauses cite.
pub mod Crew
pub mod Crewed
pub mod Filed
pub mod Plans
pub mod World
