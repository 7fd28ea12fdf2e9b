pub mod Ends
pub mod Clients
pub mod Legal
pub mod Sound
pub mod Laws
