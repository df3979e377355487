pub mod Positions
pub mod Fields
