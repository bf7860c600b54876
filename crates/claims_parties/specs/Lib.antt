pub mod PartyRuns
pub mod PartyContracts
pub mod PartiesDemand
pub mod PartyKeeps
pub mod Sentences
