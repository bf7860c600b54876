pub mod InPlace
pub mod Limited
pub mod Reductions
