pub mod Answering
pub mod PartyCalls
pub mod PartySourceCalls
pub mod Sharing
