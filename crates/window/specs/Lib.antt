pub mod Places
pub mod Window
pub mod Missing
pub mod Words
pub mod Proper
pub mod History
