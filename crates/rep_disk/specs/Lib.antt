pub mod Disk
pub mod Record
pub mod Memory
pub mod Fields
pub mod Calls
pub mod Changes
pub mod Standing
pub mod Fuse
