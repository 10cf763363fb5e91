pub mod PatternPlaces
pub mod Faults
pub mod Searches
pub mod Runs
