pub mod BeforeEight
pub mod PlacesNumber
