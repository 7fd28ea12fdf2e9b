pub mod Fields
pub mod Files
pub mod Grammar
pub mod Reading
pub mod Laws
