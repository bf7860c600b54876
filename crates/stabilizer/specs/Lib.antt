pub mod Groups
pub mod Carries
pub mod Elimination
pub mod Lists
pub mod ListSentences
pub mod Membership
pub mod internal
