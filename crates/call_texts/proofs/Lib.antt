pub mod ReadCalls
pub mod WriteCalls
