pub mod CliffordLaws
pub mod VectorLaws
