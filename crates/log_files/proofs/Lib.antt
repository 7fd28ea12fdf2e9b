pub mod Records
pub mod Loops
pub mod Blocks
pub mod Batches
pub mod Files
pub mod Writer
pub mod Written
