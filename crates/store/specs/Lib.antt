pub mod Places
pub mod StoreLines
pub mod StoreSentences
pub mod Kept
pub mod internal
