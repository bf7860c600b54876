pub mod ByRecord
pub mod KeptTurns
pub mod Measuring
pub mod Ratios
pub mod Vectors
