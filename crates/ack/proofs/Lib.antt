pub mod Grown
pub mod RunLaws
pub mod PassCases
pub mod WriteCases
pub mod ReadBack
pub mod WriteLaws
pub mod Examples
