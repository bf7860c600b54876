pub mod Asked
pub mod Lines
pub mod Numbers
pub mod Parallel
pub mod Scan
pub mod Shapes
