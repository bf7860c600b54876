pub mod JobLines
pub mod StepLines
