pub mod Shapes
pub mod Writes
pub mod Grids
pub mod Interleaves
pub mod Texts
pub mod Places
