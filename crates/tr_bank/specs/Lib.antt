pub mod Absences
pub mod Balance
pub mod Dated
