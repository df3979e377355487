pub mod Lines
pub mod Placements
pub mod Answers
pub mod Texts
pub mod Listings
