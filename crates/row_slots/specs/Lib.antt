pub mod Slots
pub mod First
