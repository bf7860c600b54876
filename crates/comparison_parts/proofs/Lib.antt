pub mod ComponentLaws
pub mod InducedRecords
pub mod Listing
pub mod PartBuffers
pub mod Parting
pub mod Placing
pub mod ReducedPairs
pub mod Spreading
