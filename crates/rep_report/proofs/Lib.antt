pub mod Decimals
pub mod KnownBytes
pub mod SayingLemmas
