pub mod ComplementedRecords
pub mod FlippedRows
pub mod PivotCodes
pub mod PivotedRecords
pub mod PuttingBefore
pub mod Recoding
pub mod ThreePasses
