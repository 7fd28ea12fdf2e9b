pub mod Values
pub mod Parts
pub mod Elements
pub mod Small
pub mod Loops
pub mod Comparing
