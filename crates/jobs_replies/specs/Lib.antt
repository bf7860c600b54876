pub mod Room
pub mod internal
