pub mod Answers
pub mod Buffers
pub mod Calls
pub mod Refusals
pub mod Writing
pub mod Sentences
pub mod internal
