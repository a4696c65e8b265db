pub mod Cases
pub mod Begins
