pub mod Bytes
pub mod Codes
pub mod Numbers
pub mod Operation
pub mod Laws
