pub mod Walking
pub mod Placing
pub mod Walks
pub mod Manifests
pub mod Sorting
pub mod Taking
pub mod Cutting
pub mod Counting
