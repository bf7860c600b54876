pub mod ChangedLists
pub mod ReducedLists
pub mod RowAnswers
pub mod RowGroups
pub mod RowLetters
pub mod RowPassing
pub mod RowUsed
pub mod RowValues
