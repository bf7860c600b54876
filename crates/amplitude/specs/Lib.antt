pub mod Plotting
pub mod Turns
pub mod Ratios
pub mod Vectors
pub mod internal
