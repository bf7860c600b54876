pub mod Examples
pub mod Pairs
pub mod GraphNumbers
pub mod Complements
pub mod Selecting
pub mod Reaching
pub mod OrbitLaws
