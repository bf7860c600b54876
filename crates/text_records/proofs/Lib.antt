pub mod Columns
pub mod Comparing
pub mod Following
pub mod Words
