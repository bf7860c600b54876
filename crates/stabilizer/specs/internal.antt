pub mod Elimination
pub mod Tableau
