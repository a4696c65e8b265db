pub mod Bytes
pub mod Cells
pub mod Images
pub mod Shown
pub mod Sound
pub mod Values
