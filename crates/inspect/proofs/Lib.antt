pub mod OfCode
pub mod ImageNumber
