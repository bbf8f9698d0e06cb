pub mod BalanceLemmas
pub mod DatedLemmas
pub mod OrderLemmas
