pub mod Marks
pub mod Tests
