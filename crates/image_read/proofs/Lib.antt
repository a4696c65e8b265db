pub mod Rests
pub mod Ending
pub mod Standing
