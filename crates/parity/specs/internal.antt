pub mod InPlace
pub mod Lists
