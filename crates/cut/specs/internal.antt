pub mod OneSided
