pub mod Numbers
pub mod Orbits
pub mod internal
