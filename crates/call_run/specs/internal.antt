pub mod LentRuns
pub mod StepRuns
pub mod Waiting
