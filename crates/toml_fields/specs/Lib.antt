pub mod Answering
pub mod Table
pub mod Spelling
pub mod Fields
