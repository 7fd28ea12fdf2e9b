pub mod Steps
pub mod Items
pub mod Order
pub mod Blocks
pub mod Files
pub mod Written
pub mod Writer
