pub mod Reading
pub mod Grammar
pub mod Laws
pub mod Writing
pub mod inner
