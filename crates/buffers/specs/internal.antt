pub mod Earlier
pub mod Numbers
