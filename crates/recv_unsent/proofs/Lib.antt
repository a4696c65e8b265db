pub mod MoveCases
pub mod Joined
