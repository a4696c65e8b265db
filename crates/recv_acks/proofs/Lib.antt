pub mod Sorted
pub mod Sorting
pub mod Sendable
pub mod WriteCases
pub mod WriteLaws
