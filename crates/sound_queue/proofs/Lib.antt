pub mod Ascending
pub mod Chains
pub mod Rules
pub mod ByParts
