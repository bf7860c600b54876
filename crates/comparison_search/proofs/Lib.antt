pub mod ClassesNone
pub mod CodeBits
pub mod EquationsRows
pub mod RowsTested
pub mod FirstCodes
pub mod SignsFound
pub mod WordSizes
