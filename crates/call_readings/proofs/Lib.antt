pub mod AmplitudeLines
pub mod CutLines
pub mod ImageCalls
pub mod Records
