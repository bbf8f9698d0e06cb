pub mod Program
pub mod Commands
pub mod Asking
