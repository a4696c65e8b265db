pub mod Write
pub mod Valid
pub mod Head
