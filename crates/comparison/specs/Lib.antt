pub mod Choices
pub mod Compared
pub mod ComparedPairs
pub mod PartChoices
pub mod Parts
pub mod internal
