pub mod Rank
pub mod Cut
pub mod Kernel
pub mod OneSided
pub mod internal
