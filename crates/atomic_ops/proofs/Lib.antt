pub mod NumberLemmas
pub mod ByteLemmas
pub mod CodeLemmas
pub mod OperationLemmas
