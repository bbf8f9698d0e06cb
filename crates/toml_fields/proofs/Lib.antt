pub mod Keys
pub mod Spelled
pub mod Found
pub mod FirstOff
