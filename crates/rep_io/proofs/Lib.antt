pub mod KnownBytes
pub mod WindowLemmas
pub mod PieceLemmas
pub mod LineLemmas
pub mod AskingLemmas
pub mod CutterLemmas
pub mod TransferLemmas
pub mod MemSourceLemmas
