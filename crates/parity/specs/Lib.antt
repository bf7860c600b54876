pub mod RowLines
pub mod RowMeasurement
pub mod internal
