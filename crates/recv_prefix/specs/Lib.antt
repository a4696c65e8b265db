pub mod First
pub mod Needs
pub mod Receiving
pub mod Taking
pub mod Dropping
