pub mod UsedNumbers
pub mod UsedVertices
