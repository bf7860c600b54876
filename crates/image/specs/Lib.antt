pub mod Rule
pub mod Image
