pub mod Lists
pub mod Beginnings
pub mod Keeps
pub mod Comings
pub mod Sessions
