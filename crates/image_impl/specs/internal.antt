pub mod Answer
pub mod Working
