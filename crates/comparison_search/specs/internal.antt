pub mod Answered
pub mod Rewriting
