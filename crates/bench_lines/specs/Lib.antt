pub mod BenchLines
pub mod Trace
