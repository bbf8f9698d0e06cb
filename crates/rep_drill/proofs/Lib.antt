pub mod Letters
pub mod Events
pub mod Lines
pub mod NextLine
pub mod Plays
pub mod Endings
pub mod Completeness
