pub mod Ready
pub mod Found
pub mod Earliest
