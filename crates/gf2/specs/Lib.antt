pub mod Binary
pub mod Poly
pub mod Division
