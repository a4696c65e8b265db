pub mod Fits
pub mod Filling
pub mod Front
pub mod Outcome
