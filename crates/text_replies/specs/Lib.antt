pub mod Places
pub mod internal
