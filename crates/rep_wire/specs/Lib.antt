pub mod Request
pub mod Made
pub mod Reply
pub mod Fields
pub mod LaneGrammar
pub mod Asking
