pub mod Chunks
pub mod Laws
pub mod Cases
pub mod Written
pub mod Examples
