pub mod Saving
pub mod Named
