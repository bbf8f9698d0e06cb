pub mod Nexts
pub mod LedgerLemmas
pub mod DiskSteps
pub mod ReplaySteps
pub mod SafetyLemmas
pub mod ContentLemmas
mod TextLemmas
pub mod LeavingLemmas
