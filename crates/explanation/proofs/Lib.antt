pub mod PlaceRuns
pub mod Reading
