pub mod Crossings
pub mod Elimination
pub mod Remainders
pub mod Spans
