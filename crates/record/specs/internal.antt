pub mod Joined
pub mod NeighbourWords
