pub mod Values
pub mod internal
