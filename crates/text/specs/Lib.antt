pub mod Reading
pub mod RecordTexts
pub mod Strings
pub mod Text
pub mod internal
