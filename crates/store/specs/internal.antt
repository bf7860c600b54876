pub mod StoreNumbers
pub mod Passing
