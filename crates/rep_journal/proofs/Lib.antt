mod BlankLemmas
mod FormatLemmas
mod GateLemmas
mod HeadLemmas
pub mod KindLemmas
mod ListLemmas
mod MomentLemmas
mod OutcomeLemmas
mod PutLemmas
mod ReadLemmas
mod ScanLemmas
mod SureLemmas
pub mod UniqueLemmas
