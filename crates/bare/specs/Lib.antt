pub mod Frame
pub mod Bare
pub mod Unfinished
pub mod Book
pub mod Order
pub mod Sequenced
