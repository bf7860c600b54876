pub mod Masks
pub mod PartyLines
pub mod PartyStores
pub mod PartySentences
pub mod internal
