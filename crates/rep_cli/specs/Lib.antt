pub mod Apart
pub mod Notices
pub mod Paths
pub mod Untold
