pub mod ByParts
pub mod Laws
pub mod Fits
