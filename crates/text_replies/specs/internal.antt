pub mod Places
pub mod Scanned
