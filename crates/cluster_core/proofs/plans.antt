pub mod Operator
pub mod Put
pub mod Abort
pub mod Start
