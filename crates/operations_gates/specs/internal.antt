pub mod Bytes
pub mod Counting
pub mod Suspects
pub mod Watching
