pub mod Writings
pub mod Tellings
pub mod Histories
pub mod Finds
pub mod Openings
pub mod Extracts
pub mod Gives
