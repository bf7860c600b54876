pub mod Amplitudes
pub mod Comparisons
pub mod Expectations
pub mod Generator
pub mod Lists
pub mod Orbits
pub mod Records
pub mod Stores
