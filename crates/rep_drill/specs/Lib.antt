pub mod Schedule
pub mod Saying
pub mod Playing
