pub mod AfdLemmas
pub mod BeginningLemmas
pub mod FillingLemmas
pub mod LineEndLemmas
pub mod RunLemmas
