pub mod Copies
pub mod EarlyNumbers
pub mod Edges
pub mod HeldStates
pub mod Moving
pub mod OwnNumbers
pub mod OwnWords
