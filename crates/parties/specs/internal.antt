pub mod Apart
pub mod Sides
