pub mod Bounds
pub mod Taken
pub mod Below
pub mod Halves
pub mod Listed
