pub mod ParitiesHold
