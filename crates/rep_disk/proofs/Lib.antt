pub mod Cells
pub mod Names
pub mod Replay
pub mod Keeping
pub mod Log
pub mod Glue
