pub mod Refusals
pub mod Wrong
pub mod Sequenced
pub mod Pieces
