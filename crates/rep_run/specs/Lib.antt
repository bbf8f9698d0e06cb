pub mod Command
pub mod Settings
pub mod Creating
pub mod Extraction
pub mod Desk
pub mod Running
pub mod Steps
pub mod Serving
