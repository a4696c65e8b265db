pub mod Clash
pub mod Carried
