pub mod Fronts
pub mod Items
pub mod Lines
pub mod Patterns
pub mod Replays
pub mod Sums
pub mod Tallies
