pub mod Reads
pub mod internal
