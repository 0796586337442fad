pub mod KnownBytes
pub mod FoundPlaces
pub mod Numbered
