pub mod Period
pub mod Extract
pub mod Steps
