pub mod Additions
pub mod Elimination
pub mod Letters
pub mod Pivots
