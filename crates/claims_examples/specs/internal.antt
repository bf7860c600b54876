pub mod Examples
pub mod Table
