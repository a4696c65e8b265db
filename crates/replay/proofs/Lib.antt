pub mod Filled
pub mod Left
