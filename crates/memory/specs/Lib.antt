pub mod Encodings
pub mod Records
pub mod Words
pub mod Slices
