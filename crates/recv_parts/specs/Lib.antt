pub mod Parts
pub mod Fitted
