pub mod Comparing
pub mod RecordPairs
