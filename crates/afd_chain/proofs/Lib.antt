pub mod HashText
