pub mod Feeding
pub mod Scan
pub mod Text
