pub mod PartySources
pub mod Renewal
pub mod internal
