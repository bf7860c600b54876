pub mod Bits
pub mod Squares
