pub mod Room
pub mod Rooms
