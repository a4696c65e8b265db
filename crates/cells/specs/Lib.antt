pub mod Cell
pub mod Ages
pub mod Datagram
pub mod Take
pub mod Sound
pub mod Store
pub mod Room
pub mod Records
