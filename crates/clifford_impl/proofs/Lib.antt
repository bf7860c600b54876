pub mod Acting
pub mod ByDigits
pub mod CodeDigits
pub mod CodeSigns
pub mod Inverses
pub mod RowDigits
pub mod TableRows
pub mod TableRules
