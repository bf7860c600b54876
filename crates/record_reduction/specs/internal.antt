pub mod Passes
pub mod Reducible
pub mod Relative
