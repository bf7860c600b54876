pub mod Answering
pub mod Blocks
pub mod ListPlaces
pub mod OneAnswer
pub mod ReadTexts
