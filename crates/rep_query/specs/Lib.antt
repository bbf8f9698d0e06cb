pub mod Lines
pub mod Opening
pub mod Writing
pub mod Extract
pub mod Receipt
pub mod Giving
