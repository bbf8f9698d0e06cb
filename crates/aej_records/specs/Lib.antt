pub mod Times
pub mod Fields
pub mod Line
pub mod Text
pub mod Grammar
pub mod Reading
