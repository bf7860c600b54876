pub mod Components
pub mod Listed
pub mod Spreads
