pub mod Renumbering
pub mod Gapless
pub mod Surveys
