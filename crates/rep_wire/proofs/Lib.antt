pub mod FieldLemmas
pub mod GrammarLemmas
pub mod OrderLemmas
pub mod ValueLemmas
pub mod ReplyLemmas
pub mod AskLemmas
pub mod HeadLemmas
