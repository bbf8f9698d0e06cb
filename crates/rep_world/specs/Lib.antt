pub mod Devices
pub mod World
pub mod Events
pub mod Fields
pub mod Trial
pub mod Play
