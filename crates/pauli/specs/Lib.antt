pub mod Pauli
pub mod internal
