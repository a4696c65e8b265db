pub mod Reading
pub mod ReadCases
pub mod FramesOf
pub mod FramesCases
pub mod Bounds
