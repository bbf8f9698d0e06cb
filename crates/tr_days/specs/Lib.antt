pub mod Journey
pub mod Cover
pub mod CoverParts
pub mod Originals
pub mod Index
pub mod Marks
