pub mod Pieces
pub mod Turns
pub mod Calls
pub mod First
pub mod ByParts
