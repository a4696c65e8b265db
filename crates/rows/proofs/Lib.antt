pub mod ListMaps
pub mod Rows
pub mod Tests
