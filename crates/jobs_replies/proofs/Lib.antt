pub mod KeptResults
pub mod Lines
pub mod PlotAnswering
pub mod ReducedBuffers
pub mod Responses
pub mod Starting
