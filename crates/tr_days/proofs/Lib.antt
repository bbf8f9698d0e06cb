pub mod PlaceLemmas
pub mod CoverLemmas
pub mod ListLemmas
pub mod MarkLemmas
pub mod WorkerLemmas
pub mod OriginalLemmas
