pub mod Asked
pub mod Fitting
pub mod Taking
pub mod Ledger
pub mod Safety
pub mod Leaving
pub mod Replaying
