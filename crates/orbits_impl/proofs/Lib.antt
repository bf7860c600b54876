pub mod Edges
pub mod Following
pub mod Marking
pub mod PairLoops
pub mod WrittenNumbers
