pub mod Read
pub mod Frames
