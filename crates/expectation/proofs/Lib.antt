pub mod Examples
pub mod ValueLaws
pub mod Reading
pub mod ReadWords
pub mod CarriedValues
