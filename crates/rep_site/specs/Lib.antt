pub mod Key
pub mod Site
pub mod Reading
pub mod Parts
