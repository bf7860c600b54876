pub mod Clifford
pub mod Vectors
