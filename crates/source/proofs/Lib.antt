pub mod Observed
pub mod ObservedParties
pub mod RenewedGroups
pub mod RenewedMasks
pub mod RenewedRecords
pub mod SourceExamples
