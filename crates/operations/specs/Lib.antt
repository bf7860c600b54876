pub mod Cz
pub mod Gates
pub mod Measurement
pub mod Steps
pub mod Used
pub mod UsedLaws
pub mod UsedSentences
pub mod internal
