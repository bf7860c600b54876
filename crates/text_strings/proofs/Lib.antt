pub mod FitLoops
pub mod LetterBits
pub mod ListLoops
pub mod PrintLoops
pub mod RowLoops
