pub mod Each
pub mod Front
pub mod Slots
pub mod Outcome
