pub mod Ends
pub mod At
