pub mod Records
pub mod Read
pub mod Write
pub mod Passes
