pub mod Lists
pub mod PartProducts
pub mod ProductCalls
pub mod ReadCalls
pub mod WriteCalls
