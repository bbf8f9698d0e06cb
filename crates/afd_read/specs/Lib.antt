pub mod LineEnds
pub mod Numbered
pub mod Beginning
pub mod Index
pub mod Filling
