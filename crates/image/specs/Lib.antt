pub mod Format
pub mod Image
pub mod Windows
pub mod Entries
pub mod Slots
pub mod Holds
