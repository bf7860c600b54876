pub mod Parts
pub mod PlaceNumbers
pub mod FoundPlaces
